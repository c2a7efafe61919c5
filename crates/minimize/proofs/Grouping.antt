-- Equal rows, chains of the first rows of each kind, and one row more. Assumes nothing.
use Rattle.std.proofs.Common.{◌≡◌, ◌≢◌, ℕ, zero, suc, ◌+◌, ◌-◌, ◌*◌, ◌%◌, ◌<◌, ◌≤◌, false, cond, eqb, List, length, fold, get_or, set, drop, replicate, inl, inr, sym, refl, ap, ◌∙◌, subst, add-one, arith}
use Rattle.std.proofs.lemmas.Bool.{cases_eq, cases_lt, eq-eqb}
use Rattle.std.proofs.lemmas.List.{length-take, length-drop, length-replicate, get_or-replicate, get_or_past, get_or-take, get_or-drop, ext_get_or, get_or-set_same, get_or-set_other, length-set}
use Rattle.std.proofs.lemmas.Nat.{mul-le}
use Rattle.std.specs.Prelude.{slice_index, slice_range}
use Rattle.weights.specs.Group.{Kind}
use Rattle.theory.specs.Hyper.{count_below}
use Rattle.theory.proofs.Kept.{counts_alike}
use Rattle.minimize.specs.Steps.{leads}
use Rattle.minimize.specs.Group.{Grouped}
use Rattle.minimize.specs.Grouping.{mixed, HasRow, slot_of, IsFirst, Leads, NoneBefore, same_rows, grouped_rows, Member, Chains, chains_of}
use Rattle.minimize.specs.declared.group.Signatures.{Signatures}

not_equal : (q p : ℕ) → q < p → eqb q p ≡ false
not_equal q p l = grind arith

-- chains
module _ (P : ℕ → Type 0) (slot : ℕ → ℕ) (n : ℕ) (heads links : ℕ → ℕ) (c : Chains P slot n heads links) where
  member_up : (k p : ℕ) → Member P slot n k p → Member P slot (n + 1) k p
  member_up k p m = record { below = omega (arith, m.below); of_note = m.of_note; in_bucket = m.in_bucket }

  member_down : (k p : ℕ) → p ≢ n → Member P slot (n + 1) k p → Member P slot n k p
  member_down k p other m =
      record { below = omega (arith, m.below); of_note = m.of_note; in_bucket = m.in_bucket }

  -- a row that is not of note leaves the chains alone
  pub chains_kept : (P n → ⊥) → Chains P slot (n + 1) heads links
  chains_kept none =
      record {
        head = λ k p e. member_up k p (c.head k p e);
        above = λ k p m. c.above k p (down k p m);
        link = λ k p o m e. let x = c.link k p o (down k p m) e in (x.0, member_up k o x.1);
        skips_none = λ k p o m m' l. c.skips_none k p o (down k p m) (down k o m') l;
      }
    where
      down : (k p : ℕ) → Member P slot (n + 1) k p → Member P slot n k p
      down k p m = member_down k p (λ e. none (subst P e m.of_note)) m

  -- a row of note goes to the head of its bucket's chain
  pub chains_more :
      (heads' links' : ℕ → ℕ) → P n → heads' (slot n) ≡ n + 1 → ((k : ℕ) → k ≢ slot n → heads' k ≡ heads k) →
      links' n ≡ heads (slot n) → ((p : ℕ) → p < n → links' p ≡ links p) → Chains P slot (n + 1) heads' links'
  chains_more heads' links' of_note head_here head_kept link_here link_kept =
      record { head = head; above = above; link = link; skips_none = skips_none }
    where
      head : (k p : ℕ) → heads' k ≡ p + 1 → Member P slot (n + 1) k p
      head k p e =
          elim (cases_eq k (slot n)) [
            | inl here ↦
                (let same : p ≡ n = (let h : heads' k ≡ n + 1 = ap heads' here ∙ head_here in omega arith) in
                record {
                  below = omega arith;
                  of_note = subst P (sym same) of_note;
                  in_bucket = ap slot same ∙ sym here;
                })
            | inr other ↦ member_up k p (c.head k p (sym (head_kept k other) ∙ e))
          ]

      above : (k p : ℕ) → Member P slot (n + 1) k p → p + 1 ≤ heads' k
      above k p m =
          elim (cases_eq k (slot n)) [
            | inl here ↦ (let h : heads' k ≡ n + 1 = ap heads' here ∙ head_here in omega (arith, m.below))
            | inr other ↦
                (let before : p ≢ n = λ e. other (sym m.in_bucket ∙ ap slot e) in
                omega (arith, head_kept k other, c.above k p (member_down k p before m)))
          ]

      link : (k p o : ℕ) → Member P slot (n + 1) k p → links' p ≡ o + 1 → (o < p) × Member P slot (n + 1) k o
      link k p o m e =
          elim (cases_eq p n) [
            | inl last ↦
                (let bucket : slot n ≡ k = ap slot (sym last) ∙ m.in_bucket in
                let x = c.head k o (ap heads (sym bucket) ∙ sym link_here ∙ ap links' (sym last) ∙ e) in
                (omega (arith, x.below), member_up k o x))
            | inr before ↦
                (let m' = member_down k p before m in
                let x = c.link k p o m' (sym (link_kept p m'.below) ∙ e) in
                (x.0, member_up k o x.1))
          ]

      skips_none : (k p o : ℕ) → Member P slot (n + 1) k p → Member P slot (n + 1) k o → o < p → o + 1 ≤ links' p
      skips_none k p o m m' l =
          let earlier : o ≢ n = (let b : p < n + 1 = m.below in λ e. omega arith) in
          let x = member_down k o earlier m' in
          elim (cases_eq p n) [
            | inl last ↦
                (let bucket : slot n ≡ k = ap slot (sym last) ∙ m.in_bucket in
                let is : links' p ≡ heads k = ap links' last ∙ link_here ∙ ap heads bucket in
                omega (arith, c.above k o x))
            | inr before ↦
                (let y = member_down k p before m in
                omega (arith, link_kept p y.below, c.skips_none k p o y x l))
          ]

-- equal rows
module _ {W : Type 0} (K : Kind W) (r : Signatures W) where
  abbrev Same : ℕ → ℕ → Type 0
  Same q p = same_rows K r q p

  pub same_self : (q : ℕ) → Same q q
  same_self q = record { key = refl; label = λ a l. refl; element = λ a l. refl }

  pub same_turned : (q p : ℕ) → Same q p → Same p q
  same_turned q p e =
      record { key = sym e.key; label = λ a l. sym (e.label a l); element = λ a l. sym (e.element a l) }

  pub same_along : (q p o : ℕ) → Same q p → Same p o → Same q o
  same_along q p o e f =
      record {
        key = e.key ∙ f.key;
        label = λ a l. e.label a l ∙ f.label a l;
        element = λ a l. e.element a l ∙ f.element a l;
      }

  abbrev Kinds : ℕ → (ℕ → ℕ) → ℕ → Type 0
  Kinds n first m = Grouped K r.letters n r.keys.now r.labels.now r.elements.now first m

  -- the first row of a kind is its own first row
  pub first_is_first : (n m : ℕ) (first : ℕ → ℕ) → Kinds n first m → (q : ℕ) → q < n → first (first q) ≡ first q
  first_is_first n m first g q l =
      let inside : first q < n = omega (arith, g.first_inside q l) in
      sym (g.one_first q (first q) l inside (g.same q l))

  -- one row more, with row v as the first row of its kind
  pub grouped_more :
      (n m x v : ℕ) (first first' : ℕ → ℕ) → Kinds n first m → ((p : ℕ) → p < n → first' p ≡ first p) → first' n ≡ v → v ≤ n →
      Same n v → ((p : ℕ) → p < n → Same n p → v ≡ first p) → x ≡ cond (eqb v n) 1 0 → Kinds (n + 1) first' (m + x)
  grouped_more n m x v first first' g kept here inside same first_of counts =
      record {
        first_inside =
            λ q l.
            elim (cases_eq q n) [
              | inl last ↦ (let e : first' q ≡ v = ap first' last ∙ here in omega arith)
              | inr other ↦ omega (arith, kept q (omega arith), g.first_inside q (omega arith))
            ];
        same =
            λ q l.
            elim (cases_eq q n) [
              | inl last ↦ subst (λ p. Same p (first' p)) (sym last) (subst (Same n) (sym here) same)
              | inr other ↦ (let l' : q < n = omega arith in subst (Same q) (sym (kept q l')) (g.same q l'))
            ];
        one_first =
            λ q p l k e.
            elim (cases_eq q n) [
              | inl last ↦
                  elim (cases_eq p n) [
                    | inl last' ↦ ap first' (last ∙ sym last')
                    | inr other ↦ (let k' : p < n = omega arith in
                        ap first' last ∙ here ∙ first_of p k' (subst (λ o. Same o p) last e) ∙ sym (kept p k'))
                  ]
              | inr other ↦ (let l' : q < n = omega arith in
                  elim (cases_eq p n) [
                    | inl last ↦
                        kept q l'
                        ∙ sym (ap first' last ∙ here ∙ first_of q l' (subst (λ o. Same o q) last (same_turned q p e)))
                    | inr other' ↦ (let k' : p < n = omega arith in
                        kept q l' ∙ g.one_first q p l' k' e ∙ sym (kept p k'))
                  ])
            ];
        count =
            ap (λ y. m + y) (counts ∙ ap (λ o. cond (eqb o n) 1 0) (sym here))
            ∙ ap (λ y. y + cond (leads first' n) 1 0)
            (g.count ∙ counts_alike (leads first) (leads first') n (λ q l. ap (λ o. eqb o q) (sym (kept q l))))
            ∙ ap (count_below (leads first')) (sym (add-one n));
      }

  pub row_above : (q p : ℕ) → p < q → HasRow r q → HasRow r p
  row_above q p l h =
      let b : p * r.letters ≤ q * r.letters = mul-le p r.letters q r.letters (omega arith) (omega arith) in
      record {
        key = omega (arith, h.key);
        labels = omega (arith, h.labels);
        elements = omega (arith, h.elements);
      }

  row_labels_long : (q : ℕ) → HasRow r q → length (slice_range r.labels.now (q * r.letters) (q * r.letters + r.letters)) ≡ r.letters
  row_labels_long q h =
      let room : q * r.letters + r.letters ≤ length r.labels.now = h.labels in
      omega (arith, length-take (q * r.letters + r.letters - q * r.letters) (drop (q * r.letters) r.labels.now), length-drop (q * r.letters) r.labels.now)

  row_label : (q a : ℕ) → a < r.letters → get_or (slice_range r.labels.now (q * r.letters) (q * r.letters + r.letters)) a 0 ≡ slice_index r.labels.now (q * r.letters + a)
  row_label q a l =
      let within : a < q * r.letters + r.letters - q * r.letters = omega arith in
      get_or-take (q * r.letters + r.letters - q * r.letters) (drop (q * r.letters) r.labels.now) a 0 within
      ∙ get_or-drop (q * r.letters) r.labels.now a 0

  -- equal rows have one bucket
  pub slot_same : (b q p : ℕ) → HasRow r q → HasRow r p → Same q p → slot_of r b q ≡ slot_of r b p
  slot_same b q p h k e =
      let xs : List ℕ = slice_range r.labels.now (q * r.letters) (q * r.letters + r.letters) in
      let ys : List ℕ = slice_range r.labels.now (p * r.letters) (p * r.letters + r.letters) in
      let long : length xs ≡ r.letters = row_labels_long q h in
      let long' : length ys ≡ r.letters = row_labels_long p k in
      let same : xs ≡ ys =
      ext_get_or 0 xs ys (long ∙ sym long')
      (λ a l. let l' : a < r.letters = omega arith in row_label q a l' ∙ e.label a l' ∙ sym (row_label p a l')) in
      ap (λ y. fold mixed (mixed 0x811c9dc5 y) xs % b) e.key
      ∙ ap (λ zs. fold mixed (mixed 0x811c9dc5 (slice_index r.keys.now p)) zs % b) same

  pub leads_member :
      (b q p : ℕ) → HasRow r q → Leads K r q p → Member (IsFirst K r) (slot_of r b) q (slot_of r b q) p
  leads_member b q p h l =
      record {
        below = l.before;
        of_note = l.first;
        in_bucket = sym (slot_same b q p h (row_above q p l.before h) l.same);
      }

  -- the first row of a row's kind comes before it if any row of its kind does
  pub leads_first :
      (n m p : ℕ) (firsts : List ℕ) → grouped_rows K r n firsts m → p < n → Same n p → Leads K r n (slice_index firsts p)
  leads_first n m p firsts g l e =
      let v = slice_index firsts p in
      let inside : v ≤ p = g.first_inside p l in
      record {
        before = omega arith;
        first =
            record {
              none_before =
                  λ o less same.
                  let one : slice_index firsts v ≡ slice_index firsts o = g.one_first v o (omega arith) (omega arith) same in
                  let own : slice_index firsts v ≡ v =
                  first_is_first n m (slice_index firsts) g p l in
                  let below : slice_index firsts o ≤ o = g.first_inside o (omega arith) in
                  omega arith;
            };
        same = same_along n p v e (g.same p l);
      }

  pub is_first : (n m : ℕ) (firsts : List ℕ) → grouped_rows K r n firsts m → NoneBefore K r n → IsFirst K r n
  is_first n m firsts g none =
      record { none_before = λ p l e. none.none (slice_index firsts p) (leads_first n m p firsts g l e) }

  -- a row that is equal to an earlier one
  pub grouped_found :
      (n m p : ℕ) (firsts : List ℕ) → n < length firsts → grouped_rows K r n firsts m → Leads K r n p →
      grouped_rows K r (n + 1) (set firsts n p) m
  grouped_found n m p firsts room g l =
      let first = slice_index firsts in
      let before : p < n = l.before in
      let own : first p ≡ p =
      elim (cases_lt (first p) p) [
        | inl less ↦ absurd (l.first.none_before (first p) less (g.same p before))
        | inr more ↦ omega (arith, g.first_inside p before)
      ] in
      subst (λ x. grouped_rows K r (n + 1) (set firsts n p) x) (let e : m + 0 ≡ m = omega arith in e)
      (grouped_more n m 0 p first (slice_index (set firsts n p)) g
      (λ q k. let other : q ≢ n = omega arith in get_or-set_other firsts n q p 0 other)
      (get_or-set_same firsts n p 0 room) (omega arith) l.same
      (λ q k e.
      let along =
      same_along p n q
      (same_turned n p l.same) e in
      sym own ∙ g.one_first p q before k along)
      (sym (ap (λ b. cond b 1 0) (not_equal p n before))))

  -- a row that is the first of its kind
  pub grouped_first :
      (n m : ℕ) (firsts : List ℕ) → n < length firsts → grouped_rows K r n firsts m → IsFirst K r n →
      grouped_rows K r (n + 1) (set firsts n n) (m + 1)
  grouped_first n m firsts room g l =
      grouped_more n m 1 n (slice_index firsts) (slice_index (set firsts n n)) g
      (λ q k. let other : q ≢ n = omega arith in get_or-set_other firsts n q n 0 other)
      (get_or-set_same firsts n n 0 room) (omega arith)
      (same_self n)
      (λ q k e. absurd (l.none_before q k e))
      (sym (ap (λ b. cond b 1 0) (eq-eqb n n refl)))

  -- no row is chained to begin with, and none is grouped
  pub nothing_chained : (n : ℕ) (heads links : List ℕ) → heads ≡ replicate n 0 → chains_of K r 0 heads links
  nothing_chained n heads links e =
      record {
        head = λ k p h. absurd (let h' : 0 ≡ p + 1 = sym (empty k) ∙ h in omega arith);
        above = λ k p m. absurd (omega (arith, m.below));
        link = λ k p o m h. absurd (omega (arith, m.below));
        skips_none = λ k p o m m' l. absurd (omega (arith, m.below));
      }
    where
      empty : (k : ℕ) → slice_index heads k ≡ 0
      empty k =
          ap (λ xs. slice_index xs k) e
          ∙ elim (cases_lt k n) [
            | inl below ↦ get_or-replicate n k 0 0 below
            | inr above ↦ get_or_past (replicate n 0) k 0 (omega (arith, length-replicate n (let z : ℕ = 0 in z)))
          ]

  pub nothing_grouped : (firsts : List ℕ) → grouped_rows K r 0 firsts 0
  nothing_grouped firsts =
      record {
        first_inside = λ q l. absurd (omega arith);
        same = λ q l. absurd (omega arith);
        one_first = λ q p l k e. absurd (omega arith);
        count = refl;
      }

  pub chains_found : (n p : ℕ) (heads links : List ℕ) → chains_of K r n heads links → Leads K r n p → chains_of K r (n + 1) heads links
  chains_found n p heads links c l =
      chains_kept (IsFirst K r) (slot_of r (length heads)) n (slice_index heads) (slice_index links) c
      (λ first. first.none_before p l.before l.same)

  pub chains_first :
      (n k : ℕ) (heads links : List ℕ) → k ≡ slot_of r (length heads) n → k < length heads → n < length links →
      chains_of K r n heads links → IsFirst K r n →
      chains_of K r (n + 1) (set heads k (n + 1)) (set links n (slice_index heads k))
  chains_first n k heads links slot inside room c first =
      let heads' = set heads k (n + 1) in
      let links' = set links n (slice_index heads k) in
      let b : length heads' ≡ length heads = length-set heads k (n + 1) in
      subst (λ x. Chains (IsFirst K r) (slot_of r x) (n + 1) (slice_index heads') (slice_index links')) (sym b)
      (chains_more (IsFirst K r) (slot_of r (length heads)) n (slice_index heads) (slice_index links) c
      (slice_index heads') (slice_index links') first
      (ap (slice_index heads') (sym slot) ∙ get_or-set_same heads k (n + 1) 0 inside)
      (λ j other. let other' : j ≢ k = λ e. other (e ∙ slot) in get_or-set_other heads k j (n + 1) 0 other')
      (get_or-set_same links n (slice_index heads k) 0 room ∙ ap (slice_index heads) slot)
      (λ p l. let other : p ≢ n = omega arith in get_or-set_other links n p (slice_index heads k) 0 other))

  -- a walk along the chain of row q's bucket: a link, and the rows that may still be equal to row q lie at it or below
  pub record Walked (q k link : ℕ) : Type 0 where
    pub member : (p : ℕ) → link ≡ p + 1 → Member (IsFirst K r) (slot_of r k) q (slot_of r k q) p
    pub passed : (p : ℕ) → Leads K r q p → p + 1 ≤ link

  pub walk_starts : (q : ℕ) (heads links : List ℕ) → HasRow r q → chains_of K r q heads links → Walked q (length heads) (slice_index heads (slot_of r (length heads) q))
  walk_starts q heads links h c =
      record {
        member = λ p e. c.head (slot_of r (length heads) q) p e;
        passed = λ p l. c.above (slot_of r (length heads) q) p (leads_member (length heads) q p h l);
      }

  pub walk_more :
      (q p : ℕ) (heads links : List ℕ) → HasRow r q → chains_of K r q heads links → Walked q (length heads) (p + 1) →
      (Same q p → ⊥) → Walked q (length heads) (slice_index links p)
  walk_more q p heads links h c w other =
      let m = w.member p refl in
      record {
        member = λ o e. (c.link (slot_of r (length heads) q) p o m e).1;
        passed =
            λ o l.
            let apart : o ≢ p = λ e. other (subst (Same q) e l.same) in
            let below : o + 1 ≤ p + 1 = w.passed o l in
            c.skips_none (slot_of r (length heads) q) p o m (leads_member (length heads) q o h l) (omega arith);
      }

  pub walk_falls :
      (q p : ℕ) (heads links : List ℕ) → chains_of K r q heads links → Walked q (length heads) (p + 1) → slice_index links p < p + 1
  walk_falls q p heads links c w = falls (slice_index links p) (λ o e. (c.link (slot_of r (length heads) q) p o (w.member p refl) e).0)
    where
      falls : (x : ℕ) → ((o : ℕ) → x ≡ o + 1 → o < p) → x < p + 1
      falls zero h = omega arith
      falls (suc x) h = omega (arith, h x (sym (add-one x)))
