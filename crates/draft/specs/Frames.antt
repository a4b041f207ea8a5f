-- What calls leave as it was.

-- a relation between two states that a call which changes nothing keeps, and two calls keep if each does
pub record Preorder {S : Type 0} (R : S → S → Type 0) : Type 0 where
  pub same : (s : S) → R s s
  pub then : (s t u : S) → R s t → R t u → R s u
