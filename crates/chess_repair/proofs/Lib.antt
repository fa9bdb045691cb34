mod LetterLemmas
mod RewriteLemmas
