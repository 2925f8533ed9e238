pub mod LoadCurve
