-- What a list of calls on a new book leaves, told by the size that its sketch has. Assumes nothing.
use Rattle.std.proofs.Common.{◌≡◌, ℕ, ◌+◌, ◌%◌, eqb, ltb, nat_le, slice_index, slice_set, None, Ok, Err, inl, inr, ◌<◌, ◌≤◌, true, false, ◌&&◌, List, length, Result, sym, ap, ◌∙◌, subst, arith}
use Rattle.std.proofs.lemmas.Bool.{cond-false, cases_lt, le-leb, le-ltb}
use Rattle.weights.specs.Group.{Kind}
use Rattle.weights.specs.Refusal.{told, outcome_as, unless, judged}
use Rattle.weights.specs.declared.refusal.Refusal.{Refusal}
use Rattle.tables.specs.Table.{Table, letters_read, is_letter_count}
use Rattle.tables.specs.Call.{has_places, if_taken}
use Rattle.tables.specs.Held.{held}
use Rattle.tables.specs.declared.sheet.Sheet.{Sheet}
use Rattle.tables.specs.declared.call.Call.TheVariants.{Rule}
use Rattle.tables.specs.Book.{Contents, laid, place, unset, size_of, left_by, opened, answers_by, left_by_all}
use Rattle.tables.specs.Sheet.{sheet_of, entry_at, leads, led_to, led_by, is_drawn, width, mean_at, sheet_table}
use Rattle.tables.specs.Made.{calls_of, answers_in, all_there, Drawn}
use Rattle.tables.specs.declared.made.Made.{Made}
use Rattle.tables.proofs.Drawing.{drawn_in_step, drawn_table, drawn_answers, drawn_has_places, drawn_some_places}
use Rattle.minimize.specs.Memories.{Memories, Room}
use Rattle.minimize.specs.Compile.{Finished, Refused, Outcome}
use Rattle.minimize.specs.Whole.{drawing, sketch_in, WholeOutcome}
use Rattle.minimize.specs.declared.compiler.Report.{Report}
use Rattle.minimize.proofs.Compiling.{promised}

module _ {W : Type 0} (ts : List ℕ) (ws : List W) (ms : List ℕ) (before : List (Made W)) where
  -- the contents that are left have the sketch's letters and states
  pub left_as :
      (b : Contents W) → b ≡ left_by_all (opened ts ws ms) (calls_of before) →
      laid b.targets b.weights b.marks (sketch_in (drawing ts ws ms before)).letters
      (length (sketch_in (drawing ts ws ms before)).finals)
      ≡ left_by_all (opened ts ws ms) (calls_of before)
  left_as b left =
      let step = drawn_in_step ts ws ms (calls_of before) in
      let letters = sym (ap (λ c. c.letters) left ∙ step.letters) in
      let count = sym (ap (λ c. c.count) left ∙ step.count) in
      (λ i. laid b.targets b.weights b.marks (letters i) (count i)) ∙ left

  pub drawn_as :
      (K : Kind W) (after : List (Made W)) (b : Contents W) → calls_of after ≡ calls_of before →
      answers_in after ≡ all_there (answers_by (opened ts ws ms) (calls_of before)) →
      b ≡ left_by_all (opened ts ws ms) (calls_of before) →
      Drawn K ts ws ms before after
      (laid b.targets b.weights b.marks (sketch_in (drawing ts ws ms before)).letters
      (length (sketch_in (drawing ts ws ms before)).finals))
  drawn_as K after b calls answers left =
      let sized = left_as b left in
      record {
        calls = calls;
        answers = answers ∙ ap all_there (drawn_answers ts ws ms (calls_of before));
        contents = sized;
        table = ap (sheet_table K) sized ∙ drawn_table ts ws ms (calls_of before) K;
      }

-- the table of the off state alone, which no place of a memory bears on
abbrev pub off_table : {W : Type 0} (K : Kind W) → ℕ → Table K.group.Mean
off_table K s =
    record {
      states = 1;
      letters = letters_read s;
      start = 0;
      start_weight = K.group.one;
      final = λ q. false;
      target = λ q a. 0;
      weight = λ q a. K.group.one;
    }

none_below : (n : ℕ) → ltb n 0 ≡ false
none_below n = le-ltb n 0 (omega arith)

pub none_drawn :
    {W : Type 0} (K : Kind W) (ts : List ℕ) (ws : List W) (ms : List ℕ) (s : ℕ) → sheet_table K (laid ts ws ms s 0) ≡ off_table K s
none_drawn K ts ws ms s =
    let c = laid ts ws ms s 0 in
    let leads_off : (k : ℕ) → leads c k ≡ false = λ k. none_below (entry_at c k) in
    let not_drawn : (q a : ℕ) → is_drawn c q a ≡ false = λ q a. ap (λ b. b && ltb a (width c)) (none_below q) in
    let start = cond-false (leads c 0) (entry_at c 0) 0 (leads_off 0) in
    let start_weight = cond-false (leads c 0) (mean_at K ws 0) K.group.one (leads_off 0) in
    λ i.
    record {
      states = 1;
      letters = letters_read s;
      start = start i;
      start_weight = start_weight i;
      final = λ q. none_below q i && eqb (slice_index ms q % 2) 1;
      target = λ q a. cond-false (is_drawn c q a) (led_to c (place (width c) q a)) 0 (not_drawn q a) i;
      weight = λ q a. cond-false (is_drawn c q a) (led_by K c (place (width c) q a)) K.group.one (not_drawn q a) i;
    }

-- a book of no states means the same over any memories
pub same_off :
    {W : Type 0} (K : Kind W) (c d : Contents W) → c.count ≡ 0 → d.count ≡ 0 → c.letters ≡ d.letters → sheet_table K c ≡ sheet_table K d
same_off K c d e f l =
    (λ i. sheet_table K (laid c.targets c.weights c.marks (l i) (e i)))
    ∙ none_drawn K c.targets c.weights c.marks d.letters
    ∙ sym (none_drawn K d.targets d.weights d.marks d.letters)
    ∙ (λ i. sheet_table K (laid d.targets d.weights d.marks d.letters (sym f i)))

-- a sheet that is refused where letters, states and, if there is one, places are as they must be, has no states
pub shut :
    {W : Type 0} (c : Contents W) (r : Result (Sheet W) Refusal) (e : Refusal) → outcome_as held r ≡ sheet_of c → r ≡ Err e →
    is_letter_count c.letters ≡ true → c.count ≤ 4095 → (0 < c.count → has_places (size_of c) ≡ true) → c.count ≡ 0
shut c r e told_so refused letters few places =
    elim (cases_lt 0 c.count) [
      | inr none ↦ omega arith
      | inl some ↦ absurd (
          let a = is_letter_count c.letters in
          let b = nat_le c.count 4095 in
          let p = has_places (size_of c) in
          let right : sheet_of c ≡ Ok c =
          ap (λ x. judged (unless x 1 (unless b 8 (unless p 6 None))) c) letters
          ∙ ap (λ x. judged (unless x 8 (unless p 6 None)) c) (le-leb c.count 4095 few)
          ∙ ap (λ x. judged (unless x 6 None) c) (places some) in
          let wrong : Err (told e) ≡ Ok c = sym (ap (outcome_as held) refused) ∙ told_so ∙ right in
          let z : ◌≡◌ {A = ℕ} 0 1 = cc in omega arith)
    ]

-- a new book whose letters are set holds no states
pub ruled :
    {W : Type 0} (ts : List ℕ) (ws : List W) (ms : List ℕ) (s : ℕ) → is_letter_count s ≡ true →
    left_by (opened ts ws ms) (Rule s) ≡ laid (slice_set ts 0 unset) ws ms s 0
ruled ts ws ms s e = ap (λ b. if_taken (unless b 1 None) (laid (slice_set ts 0 unset) ws ms s 0) (opened ts ws ms)) e

-- Of a list of calls on a new book: its size is that of its sketch, and it was made in memory with room for tables of that size.
module _
    {W : Type 0} (K : Kind W) (ts : List ℕ) (ws : List W) (ms : List ℕ) (before after : List (Made W)) (ts' : List ℕ) (ws' : List W)
    (ms' : List ℕ) (s n : ℕ) (letters : s ≡ (sketch_in (drawing ts ws ms before)).letters)
    (states : n ≡ length (sketch_in (drawing ts ws ms before)).finals)
  where
    -- it has few states, and where it has any, its memories have their places
    pub sized_few : n ≤ 4095
    sized_few =
        let step = drawn_in_step ts ws ms (calls_of before) in
        omega (arith, step.few_states, step.count, states)

    module _
        (drawn :
        Drawn K ts ws ms before after
        (laid ts' ws' ms' (sketch_in (drawing ts ws ms before)).letters (length (sketch_in (drawing ts ws ms before)).finals)))
      where
        pub sized_places : 0 < n → has_places (size_of (laid ts' ws' ms' s n)) ≡ true
        sized_places some =
            let has = drawn_some_places ts ws ms (calls_of before) (omega (arith, states)) in
            ap (λ b. has_places (size_of b)) ((λ i. laid ts' ws' ms' (letters i) (states i)) ∙ drawn.contents)
            ∙ drawn_has_places ts ws ms (calls_of before) has.0 has.1

        -- compiled, it comes to what is promised
        pub whole :
            (m m' : Memories W) → Room (n + 1) s m → (r : Result Report Refusal) →
            Outcome K (sheet_table K (laid ts' ws' ms' s n)) m m' r →
            WholeOutcome K (drawing ts ws ms before) (drawing ts' ws' ms' after) m m' r
        whole m m' room (Ok r) out =
            let table = (λ i. sheet_table K (laid ts' ws' ms' (letters i) (states i))) ∙ drawn.table in
            record {
              drawn = drawn;
              finished = subst (λ t. Finished K t m m' r) table out;
              every = λ t k p lawful compiled. promised K t k p lawful compiled;
            }
        whole m m' room (Err e) out =
            let table = (λ i. sheet_table K (laid ts' ws' ms' (letters i) (states i))) ∙ drawn.table in
            let none = subst (λ t. Refused K t m m' e) table out in
            absurd (none.no_room (subst (λ k. Room (k + 1) (sketch_in (drawing ts ws ms before)).letters m) states (subst (λ k. Room (n + 1) k m) letters room)))
