mod FrontLaws
mod TypedLaws
mod OwnLaws
