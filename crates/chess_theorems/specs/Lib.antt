-- Laws of the definitions of the Laws, one subject a file.
pub mod DeadLaws
pub mod MatingLaws
pub mod FlipLaws
pub mod MoveLaws
pub mod OutcomeLaws
pub mod TextLaws
pub mod MirrorLaws
pub mod SearchLaws
