pub mod Each
pub mod Places
pub mod Rules
pub mod RuleSteps
