pub mod Ahead
pub mod LastPoint
pub mod MsgRef
pub mod SharedRange
pub mod SortedMsgs
pub mod BufferedMsg
pub mod OldestWalk
