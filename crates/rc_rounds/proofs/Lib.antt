mod ShareLaws
mod SharedLaws
mod RenewingLaws
pub mod CheckpointLaws
mod RoundLaws
mod ProgressLaws
mod SettingLaws
pub mod KnownLaws
mod SilentLaws
pub mod OutcomeLaws
