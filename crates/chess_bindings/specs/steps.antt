pub mod HeadingCode
