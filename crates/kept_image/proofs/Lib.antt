mod PartLaws
mod AnswerLaws
mod CutLimitLaws
