mod SegmentLaws
