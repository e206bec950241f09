-- A value before some calls and after them, by name, so that neither can stand for the other.
pub record Change (X : Type 0) : Type 0 where
  pub before : X
  pub after : X
