-- A session: what a line asks for, what each event is replied and leads to, the lines of the replies, and laws over lists of events.
-- `steps` has words of the code alone.
pub mod Tables
pub mod Commands
pub mod Go
pub mod Placing
pub mod Machine
pub mod Events
pub mod Within
pub mod Replies
pub mod Laws
pub mod steps
