pub mod BitLaws
pub mod VerdictLaws
