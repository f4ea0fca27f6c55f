mod AnswerLaws
mod OneAnswer
mod FoundLaws
