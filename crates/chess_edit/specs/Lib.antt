-- What a reader must believe: how a game's tags are set, and how two games are joined; `steps` has the words of the code's steps.
pub mod SetTags
pub mod Joined
pub mod steps
