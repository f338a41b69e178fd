-- Laws of the check.
mod PartLaws
