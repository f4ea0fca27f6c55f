pub mod CutLaws
pub mod SectorLaws
pub mod TogetherLaws
mod PartingLaws
