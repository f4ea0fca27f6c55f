mod PutLaws
mod ExampleLaws
pub mod SubjectLaws
pub mod OneShown
