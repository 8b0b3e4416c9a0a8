-- The walks of the functions for C, one for each shape of parameters: a struct is lent first, words or a file stand behind it, and the
-- place for the answer is lent last. The struct is read, a call is made over it by value, and what it gives back is stored. Where a file
-- is written, or rows are asked about without a session, no struct is lent first.
pub mod Stepping
pub mod Accepting
pub mod Rejecting
pub mod Filling
pub mod Replaying
pub mod OpeningLog
pub mod Opening
pub mod Asking
pub mod OpeningFile
pub mod ReadingFile
pub mod AskingFile
pub mod WritingFile
pub mod AskingRows
