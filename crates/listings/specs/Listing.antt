-- The listing of a table as text: its counts, its start, its states in order and its arcs by state and letter. Assumes nothing.
use Rattle.std.specs.Prelude.{ℕ, ◌*◌, ◌/◌, ◌%◌, Bool, cond, List, ◌++◌, codes}
use Rattle.std.specs.Fmt.{decimal}
use Rattle.std.specs.List.{range_with_len, flat_map}
use Rattle.weights.specs.Codes.{Codes, code_for}
use Rattle.weights.specs.Group.{Kind}
use Rattle.tables.specs.Table.{Table}

-- a word and a number in its fewest digits
abbrev pub field : List ℕ → ℕ → List ℕ
field word n = word ++ decimal n

-- the same as a line, or as the end of one
abbrev pub line : List ℕ → ℕ → List ℕ
line word n = field word n ++ codes "\n"

-- the lines of the counts: the states of the least and of the hyper table, the kernel states, and the agreement length
abbrev pub counts_text : (least hyper kernel agree : ℕ) → List ℕ
counts_text m h k a = line (codes "least ") m ++ (line (codes "hyper ") h ++ (line (codes "kernel ") k ++ line (codes "agree ") a))

-- the line of a start q whose weight has code c
abbrev pub start_line : ℕ → ℕ → List ℕ
start_line q c = field (codes "start ") q ++ line (codes " ") c

-- the line of a state q, which is final or not
abbrev pub state_line : ℕ → Bool → List ℕ
state_line q f = field (codes "state ") q ++ cond f (codes " final\n") (codes " no\n")

-- the line of an arc from q by letter a to r whose weight has code c
abbrev pub arc_line : ℕ → ℕ → ℕ → ℕ → List ℕ
arc_line q a r c = field (codes "arc ") q ++ (field (codes " ") a ++ (field (codes " ") r ++ line (codes " ") c))

-- the lines of the states below n
abbrev pub states_text : (ℕ → Bool) → ℕ → List ℕ
states_text final n = flat_map (λ q. state_line q (final q)) (range_with_len 0 n)

module _ {W : Type 0} (K : Kind W) (k : Codes W) (t : Table K.group.Mean) where
  abbrev pub start_text : List ℕ
  start_text = start_line t.start (code_for K k t.start_weight)

  -- the line of arc p, which is that of state p / letters and letter p % letters
  abbrev pub arc_text : ℕ → List ℕ
  arc_text p =
      arc_line (p / t.letters) (p % t.letters) (t.target (p / t.letters) (p % t.letters))
      (code_for K k (t.weight (p / t.letters) (p % t.letters)))

  -- the lines of the arcs below n
  abbrev pub arcs_text : ℕ → List ℕ
  arcs_text n = flat_map arc_text (range_with_len 0 n)

  -- the whole listing
  abbrev pub listing_text : (least hyper kernel agree : ℕ) → List ℕ
  listing_text m h c a = counts_text m h c a ++ (start_text ++ (states_text t.final t.states ++ arcs_text (t.states * t.letters)))
