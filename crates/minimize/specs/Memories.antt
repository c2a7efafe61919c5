-- The memories that compiling is lent. Assumes nothing.
use Rattle.std.specs.Prelude.{◌≡◌, ℕ, ◌+◌, ◌*◌, ◌≤◌, List, length}

-- memories of those lengths have room for any table of n states and s letters
pub record TableRoom (n s targets weights marks : ℕ) : Type 0 where
  pub target_room : 1 + n * s ≤ targets
  pub weight_room : 1 + n * s ≤ weights
  pub mark_room : n ≤ marks

-- memories of those lengths have a representative and a factor for each of n states, and room for work
pub record StateRoom (n representatives factors numbers elements : ℕ) : Type 0 where
  pub representative_room : n ≤ representatives
  pub factor_room : n ≤ factors
  pub number_room : 24 * n ≤ numbers
  pub element_room : 6 * n ≤ elements

-- what lies in them: those of the least table, of the hyper table, of the lists that have one place for each state, and of the work
pub record Memories (W : Type 0) : Type 0 where
  pub targets : List ℕ
  pub weights : List W
  pub marks : List ℕ
  pub hyper_targets : List ℕ
  pub hyper_weights : List W
  pub hyper_marks : List ℕ
  pub representatives : List ℕ
  pub factors : List W
  pub numbers : List ℕ
  pub elements : List W

abbrev pub memories :
    {W : Type 0} → List ℕ → List W → List ℕ → List ℕ → List W → List ℕ → List ℕ → List W → List ℕ → List W → Memories W
memories ts ws ms hts hws hms rs fs ns es =
    record {
      targets = ts;
      weights = ws;
      marks = ms;
      hyper_targets = hts;
      hyper_weights = hws;
      hyper_marks = hms;
      representatives = rs;
      factors = fs;
      numbers = ns;
      elements = es;
    }

-- the memories have room for a source of n states and s letters
pub record Room {W : Type 0} (n s : ℕ) (m : Memories W) : Type 0 where
  pub least : TableRoom n s (length m.targets) (length m.weights) (length m.marks)
  pub hyper : TableRoom n s (length m.hyper_targets) (length m.hyper_weights) (length m.hyper_marks)
  pub states : StateRoom n (length m.representatives) (length m.factors) (length m.numbers) (length m.elements)

-- memories are as long as others
pub record SameLengths {W : Type 0} (m n : Memories W) : Type 0 where
  pub targets : length n.targets ≡ length m.targets
  pub weights : length n.weights ≡ length m.weights
  pub marks : length n.marks ≡ length m.marks
  pub hyper_targets : length n.hyper_targets ≡ length m.hyper_targets
  pub hyper_weights : length n.hyper_weights ≡ length m.hyper_weights
  pub hyper_marks : length n.hyper_marks ≡ length m.hyper_marks
  pub representatives : length n.representatives ≡ length m.representatives
  pub factors : length n.factors ≡ length m.factors
  pub numbers : length n.numbers ≡ length m.numbers
  pub elements : length n.elements ≡ length m.elements
