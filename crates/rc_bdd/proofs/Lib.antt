pub mod ErrorLaws
mod AtOnce
mod WorkLaws
mod MeetLaws
mod StepLaws
mod ValueLaws
