use Rattle.std.proofs.Common.{◌≡◌, ℕ, List, [], ◌++◌, ap, refl, subst, sym, ◌∙◌}
use Rattle.kembura.specs.Encoded.{sink_of}
use Rattle.kembura.specs.Headline.{Headline}
use Rattle.kembura.specs.Memory.{list_bytes}
use Rattle.kembura.specs.NameTables.{Tables}
use Rattle.kembura.specs.Plain.{PlainTerm}
use Rattle.kembura.specs.TheoremFits.{new_stages}
use Rattle.kembura.specs.TypeValues.{Enums}
use Rattle.kembura_uses.proofs.levels.asked_on_top.Goals as goal

-- what was received in one call more
goes_on : (x y z b : List ℕ) → x ≡ y → z ≡ y ++ b → x ++ b ≡ z
goes_on x y z b p q = ap (λ l. l ++ b) p ∙ sym q

to_here : (a b : Enums) (s : Tables) (ts : List PlainTerm) (text bytes : List ℕ) → a ≡ b → text ≡ bytes → Headline a s ts text → Headline b s ts bytes
to_here a b s ts text bytes p q h = subst (λ (e : Enums). Headline e s ts bytes) p (subst (λ (l : List ℕ). Headline a s ts l) q h)

pub returns : goal.returns
returns c base first question =
    let (b1, q1, f1) = c.in_ok-encode.ensures.fits base [] new_stages c.new-encoder.ensures.fits _ _ refl refl in
    let (b2, q2, f2) = c.in_ok-push.ensures.fits _ _ f1 _ _ refl refl in
    let (b3, q3, f3) = c.in_ok-encode-2.ensures.fits first _ _ f2 _ _ refl refl in
    let (b4, q4, f4) = c.in_ok-pop.ensures.fits _ _ f3 _ _ refl refl in
    let (b5, q5, f5) = c.in_ok-push-2.ensures.fits _ _ f4 _ _ refl refl in
    let (b6, q6, f6) = c.in_ok-encode-3.ensures.fits question _ _ f5 _ _ refl refl in
    let p0 : [] ≡ list_bytes (sink_of c.new-encoder.result) = sym (ap list_bytes c.new-encoder.ensures.sink ∙ c.new.ensures) in
    let p1 = goes_on _ _ _ b1 p0 q1 in
    let p2 = goes_on _ _ _ b2 p1 q2 in
    let p3 = goes_on _ _ _ b3 p2 q3 in
    let p4 = goes_on _ _ _ b4 p3 q4 in
    let p5 = goes_on _ _ _ b5 p4 q5 in
    let p6 = goes_on _ _ _ b6 p5 q6 in
    let enums = c.in_ok-encode-3.ensures.kept.enums ∙ c.in_ok-push-2.ensures.kept.enums ∙ c.in_ok-pop.ensures.kept.enums ∙ c.in_ok-encode-2.ensures.kept.enums ∙ c.in_ok-push.ensures.kept.enums ∙ c.in_ok-encode.ensures.kept.enums ∙ c.new-encoder.ensures.enums in
    (_, to_here _ _ _ _ _ _ enums (p6 ∙ ap list_bytes (sym c.into_script.ensures)) (c.fitting_texts_are_scripts.ensures _ _ _ f6.fits))
