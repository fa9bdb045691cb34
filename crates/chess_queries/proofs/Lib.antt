-- Lemmas on lines copied, and on moves with their texts.
pub mod CopyLemmas
