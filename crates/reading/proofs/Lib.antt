pub mod AnswerLaws
pub mod MeetingLaws
pub mod ReplyLaws
