use Rattle.std.proofs.Common.{◌≡◌, ℕ, List, [], ◌∷◌, ◌++◌, Some, None, map, ap, sym, ◌∙◌}
use Rattle.std.specs.List.{AllByRecursion}
use Rattle.std.specs.Prelude.{unwrap_or}
use Rattle.kembura.specs.Encoded.{enums_in, sink_of}
use Rattle.kembura.specs.Faults.{first_fault}
use Rattle.kembura.specs.Formed.{IsFormed}
use Rattle.kembura.specs.Memory.{list_bytes}
use Rattle.kembura.specs.TermView.{plain_term}
use Rattle.kembura.specs.Text.{text}
use Rattle.kembura.specs.TermEnums.{enums_of}
use Rattle.smt_term.specs.declared.term.Term.{Term}
use Rattle.kembura_uses.proofs.decide.decide.Goals as goal

-- the terms of a list are formed, where every term is
all_formed : ((t : Term) → IsFormed (plain_term t)) → (ts : List Term) → AllByRecursion IsFormed (map plain_term ts)
all_formed formed [] = tt
all_formed formed (t ∷ ts) = (formed t, all_formed formed ts)

known_alike : {x y : List ℕ} → Some x ≡ Some y → x ≡ y
known_alike h = ap (λ o. unwrap_or o []) h

pub returns : goal.returns
returns g c =
    let ts = map plain_term c.args.conditions.now in
    let fresh = c.new-encoder.result in
    let wrote = c.in_ok-encode.ensures.stated c.new-encoder.ensures.fresh in
    let empty : list_bytes (sink_of fresh) ≡ [] = ap list_bytes c.new-encoder.ensures.sink ∙ c.new.ensures in
    let got : list_bytes (sink_of c.encode.new.self) ≡ list_bytes (sink_of fresh) ++ text (enums_in fresh) ts = known_alike wrote.text in
    let same : c.bytes.result.now ≡ text (enums_of c.args.enums.now) ts =
    c.bytes.ensures ∙ (ap list_bytes c.into_script-script.ensures ∙ (got ∙ (ap (λ xs. xs ++ text (enums_in fresh) ts) empty ∙ ap (λ e. text e ts) c.new-encoder.ensures.enums))) in
    let faultless : first_fault (enums_of c.args.enums.now) ts ≡ None = ap (λ e. first_fault e ts) (sym c.new-encoder.ensures.enums) ∙ c.in_ok-encode.ensures.complete.faultless in
    record {
      believed = λ typed honest blank. c.in_ok-ask_script.ensures.believed (enums_of c.args.enums.now) ts (c.program_texts.ensures.members c.args.enums.now)
          (record { are_typed = typed; are_formed = all_formed c.program_terms.ensures.formed c.args.conditions.now; have_no_fault = faultless }) same honest blank;
    }
