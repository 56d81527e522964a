pub mod Wholes
pub mod LineLaws
pub mod RunLaws
pub mod LineRuns
pub mod PieceLaws
pub mod ScriptRuns
pub mod LineAnswers
pub mod ViewAnswers
