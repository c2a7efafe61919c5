-- What a watch is told of compiling. Assumes nothing.
use Rattle.std.specs.Prelude.{◌≡◌, List, [], ◌∷◌, ◌++◌, Ok, Err, Result}
use Rattle.weights.specs.declared.refusal.Refusal.{Refusal}
use Rattle.minimize.specs.declared.compiler.Report.{Report}
use Rattle.minimize.specs.declared.watch.Step.{Step}
use Rattle.minimize.specs.declared.watch.Step.TheVariants.{Copy, Push, Classes, Kernel, Almost, Redirect}

-- a watch is told of steps one after another, each of which may change it as Told says
abbrev pub Passed : {T : Type 0} → (T → Step → T → Type 0) → List Step → T → T → Type 0
Passed Told [] before after = after ≡ before
Passed {T} Told (s ∷ ss) before after = (next : T) × Told before s next × Passed Told ss next after

-- the steps of a least table, and of a hyper table
abbrev pub least_steps : List Step
least_steps = Copy ∷ Push ∷ Classes ∷ []

abbrev pub hyper_steps : List Step
hyper_steps = Kernel ∷ Almost ∷ Redirect ∷ []

-- it is told of each step of compiling, and of none where that is refused
abbrev pub Watched : {T : Type 0} → (T → Step → T → Type 0) → T → T → Result Report Refusal → Type 0
Watched Told before after (Ok r) = Passed Told (least_steps ++ hyper_steps) before after
Watched Told before after (Err e) = after ≡ before
