-- What a reader must believe: how a game ends by the Laws, and the texts of legal moves.
pub mod Ended
pub mod Texts
