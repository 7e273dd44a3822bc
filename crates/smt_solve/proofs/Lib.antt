pub mod AnswerLemmas
pub mod ChildLemmas
pub mod LineLemmas
pub mod LinkLemmas
pub mod MemoryLemmas
pub mod ModelLemmas
pub mod QuestionLemmas
pub mod Utf8Lemmas
