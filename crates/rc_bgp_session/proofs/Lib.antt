mod PassedLaws
mod SameLaws
