pub mod OfReply
