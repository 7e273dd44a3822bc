use Rattle.std.proofs.Common.{◌≡◌, ℕ, List, [], ◌++◌, ap, refl, subst, sym, ◌∙◌}
use Rattle.kembura.specs.Encoded.{sink_of}
use Rattle.kembura.specs.Headline.{Headline}
use Rattle.kembura.specs.Memory.{list_bytes}
use Rattle.kembura.specs.NameTables.{Tables}
use Rattle.kembura.specs.Plain.{PlainTerm}
use Rattle.kembura.specs.TypeValues.{Enums}
use Rattle.kembura_uses.proofs.conditions.script_of.Goals as goal

to_here : (a b : Enums) (s : Tables) (ts : List PlainTerm) (text bytes : List ℕ) → a ≡ b → bytes ≡ text → Headline a s ts text → Headline b s ts bytes
to_here a b s ts text bytes p q h = subst (λ (e : Enums). Headline e s ts bytes) p (subst (λ (l : List ℕ). Headline a s ts l) (sym q) h)

pub returns : goal.returns
returns c typed =
    let (bytes, got, (s, has, h)) = c.in_ok-encode.ensures.headline c.new-encoder.ensures.fresh typed _ _ refl refl in
    let empty : list_bytes (sink_of c.new-encoder.result) ≡ [] = ap list_bytes c.new-encoder.ensures.sink ∙ c.new.ensures in
    (s, to_here _ _ _ _ _ _ c.new-encoder.ensures.enums (ap list_bytes c.into_script.ensures ∙ got ∙ ap (λ l. l ++ bytes) empty) h)
