mod WindowLemmas
mod GoingLemmas
mod HeadingLemmas
