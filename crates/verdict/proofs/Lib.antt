-- Laws of rules and verdicts, for every crate that refuses.
pub mod FirstLaws
pub mod RuleLaws
pub mod FamilyLaws
pub mod SaidLaws
