-- TimerLaws     the timers, mode by mode
-- FrameLaws     how many frames there are
-- RingLaws      the tests of a ring decide 01's sentences; what a visit sends, and its answer
-- MarkLaws      marking, and taking a mark off
-- FddiLaws      FDDI's timers in the code's arrays
-- ViewLaws      a visit by the numbers of the token's station
-- StationLaws   FDDI's timers station by station, as `fddi_timer_rules` has them
-- ShapeLaws     a ring's arrays keep their 128 places
-- OpeningLaws   opening's number beside the judgement of the plan
pub mod TimerLaws
pub mod FrameLaws
pub mod RingLaws
pub mod MarkLaws
pub mod FddiLaws
pub mod ViewLaws
pub mod StationLaws
pub mod ShapeLaws
pub mod OpeningLaws
