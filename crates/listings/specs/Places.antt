-- The memories in which a file is drawn and compiled. Assumes nothing.
use Rattle.std.specs.Prelude.{◌≡◌, ℕ, List, length}
use Rattle.minimize.specs.Memories.{Memories}

-- memories for the book of a file
pub record BookPlaces {W : Type 0} (targets : List ℕ) (weights : List W) (marks : List ℕ) : Type 0 where
  pub targets_length : length targets ≡ 1017
  pub weights_length : length weights ≡ 1017
  pub marks_length : length marks ≡ 127

-- Memories for the tables of each source of at most 128 states and 1080 arcs. The book of a file has at most 127 states, and 1016 arcs,
-- and closed it has an off state, and so one row of at most 64 arcs more.
pub record TablePlaces {W : Type 0} (m : Memories W) : Type 0 where
  pub targets : length m.targets ≡ 1081
  pub weights : length m.weights ≡ 1081
  pub marks : length m.marks ≡ 128
  pub hyper_targets : length m.hyper_targets ≡ 1081
  pub hyper_weights : length m.hyper_weights ≡ 1081
  pub hyper_marks : length m.hyper_marks ≡ 128
  pub representatives : length m.representatives ≡ 128
  pub factors : length m.factors ≡ 128
  pub numbers : length m.numbers ≡ 3072
  pub elements : length m.elements ≡ 768
