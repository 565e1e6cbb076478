pub mod Quotients
pub mod ItemLoop
pub mod PacketLaws
pub mod AnswerLaws
pub mod Prefixes
pub mod Lengths
pub mod ReplyLaws
pub mod Rows
