-- Games in portable game notation. What a reader has to believe: games, what the items of a text give, and the export form;
-- `steps` has definitions for the code's own steps.
pub mod Layout
pub mod Games
pub mod Tags
pub mod Written
pub mod Grammar
pub mod Reading
pub mod Sources
pub mod steps
pub mod Laws
