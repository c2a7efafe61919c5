-- A refusal that is made a fault, and what it is blamed on. Assumes nothing.
use Rattle.std.proofs.Common.{◌≡◌, ℕ, Some, None, Ok, Err, Option, Result, sym, refl, ap, ◌∙◌}
use Rattle.std.specs.Prelude.{MatchResult, IsErrAnd}
use Rattle.weights.specs.Refusal.{Told, told, outcome, judged}
use Rattle.weights.specs.declared.refusal.Refusal.{Refusal}
use Rattle.drafts.specs.Fault.{Blame, blame, faulted, unmade}
use Rattle.drafts.specs.declared.fault.Fault.{Fault}
use Rattle.drafts.specs.declared.fault.Layer.{Layer}
use Rattle.drafts.specs.declared.fault.Layer.TheVariants.{Book}

-- an answer of a layer, for the field at an offset
abbrev pub blamed : {X : Type 0} → Layer → ℕ → Result X Told → Result X Blame
blamed l o (Ok x) = Ok x
blamed l o (Err t) = Err (record { layer = l; told = t; offset = o })

-- an answer whose refusal a closure makes a fault
pub faulted-map_err :
    {X : Type 0} (l : Layer) (o : ℕ) (r : Result X Refusal) (s : Result X Fault) (y : Result X Told) (P : Refusal → Fault → Type 0) →
    outcome r ≡ y → MatchResult r (λ x. s ≡ Ok x) (λ e. IsErrAnd s (P e)) →
    ((e : Refusal) (f : Fault) → P e f → f ≡ record { layer = l; refusal = e; offset = o }) → faulted s ≡ blamed l o y
faulted-map_err l o (Ok x) s y P same h q = ap faulted h ∙ ap (blamed l o) same
faulted-map_err l o (Err e) (Ok x) y P same h q = absurd h
faulted-map_err l o (Err e) (Err f) y P same h q = ap (λ f. Err (blame f)) (q e f h) ∙ ap (blamed l o) same

-- a call is made, or is refused with what its fault tells
pub made_call : (v : Option Told) (o : ℕ) (s : Result (Unit {0}) Fault) (u : Unit {0}) → faulted s ≡ blamed Book o (judged v tt) → s ≡ Ok u → v ≡ None
made_call None o s u answer e = refl
made_call (Some t) o s u answer e = absurd (cc (answer, ap faulted e))

pub unmade_call :
    (v : Option Told) (o : ℕ) (s : Result (Unit {0}) Fault) (f : Fault) → faulted s ≡ blamed Book o (judged v tt) → s ≡ Err f →
    (v ≡ Some (told f.refusal)) × (unmade o (told f.refusal) ≡ blame f)
unmade_call None o s f answer e = absurd (cc (answer, ap faulted e))
unmade_call (Some t) o s f answer e =
    let same : blame f ≡ unmade o t = cc (answer, ap faulted e) in
    let told_same : told f.refusal ≡ t = ap (λ b. b.told) same in
    (ap Some (sym told_same), ap (unmade o) told_same ∙ sym same)
