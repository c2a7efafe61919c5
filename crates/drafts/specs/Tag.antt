-- The tags of the fields. Assumes nothing.
use Rattle.std.specs.Prelude.{◌≡◌, ◌≢◌, ℕ, MatchResult, Result}
use Rattle.drafts.specs.declared.tag.Tag.{Tag}
use Rattle.drafts.specs.declared.tag.Tag.TheVariants.{Head, State, Arc, Start}
use Rattle.drafts.specs.declared.tag.UnknownTag.{UnknownTag}

-- the byte of each tag
abbrev pub tag_byte : Tag → ℕ
tag_byte Head = 1
tag_byte State = 2
tag_byte Arc = 3
tag_byte Start = 4

-- the result is the tag with this byte, or an error where no tag has it
abbrev pub Decodes : ℕ → Result Tag UnknownTag → Type 0
Decodes byte r = MatchResult r (λ tag. tag_byte tag ≡ byte) (λ _. (tag : Tag) → tag_byte tag ≢ byte)
