mod FixedLaws
mod LayingLaws
