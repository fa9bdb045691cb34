-- The words of the code's steps: how a tree lies in memory, and what each step writes. No public contract speaks of them.
pub mod Rooted
pub mod Grove
pub mod Entries
pub mod Slots
pub mod KeptSlots
pub mod Linked
pub mod Laid
pub mod Freed
pub mod Notes
pub mod Writes
pub mod Siblings
pub mod Viewed
pub mod ForestCode
pub mod TreeCode
pub mod Analysed
