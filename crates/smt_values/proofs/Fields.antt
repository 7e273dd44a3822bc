-- The look-up of an attribute in the pairs of a record.
use Rattle.std.proofs.Common.{◌≡◌, ℕ, ◌+◌, ◌<◌, ◌≤◌, true, false, bytes_eq, List, ◌∷◌, Option, Some, None, drop, get_or, length, map, sym, ap, ◌∙◌, if◌then◌else◌}
use Rattle.std.proofs.lemmas.List.{at_drop_more, at_drop_all}
use Rattle.std.specs.Rc.{rc_str_bytes}
use Rattle.std.specs.declared.alloc.Global.{Global}
use Rattle.std.specs.declared.rc.RcStr.{RcStr}
use Rattle.smt_values.specs.PlainValues.{PlainValue, value_fields}
use Rattle.smt_values.specs.ValueView.{named_field, plain_value_of}
use Rattle.smt_values.specs.declared.value.Value.{Value}
use Rattle.smt_values.specs.TermOfValue.{field_named}

-- the value of an attribute in pairs
abbrev pub found : List ℕ → List (RcStr Global × Value) → Option PlainValue
found name pairs = field_named name (value_fields (map named_field pairs))

module _ (name : List ℕ) (all : List (RcStr Global × Value)) (i : ℕ) (so_far : found name (drop i all) ≡ found name all) where
  pub nothing_found : length all ≤ i → None ≡ found name all
  nothing_found l = sym (at_drop_all (found name) all i l) ∙ so_far

  module _ (item : RcStr Global × Value) (l : i < length all) (at : item ≡ get_or all i item) where
    by_item : found name all ≡ (if bytes_eq name (rc_str_bytes item.0) then Some (plain_value_of item.1) else found name (drop (i + 1) all))
    by_item = sym so_far ∙ at_drop_more (found name) all i item l ∙ ap (λ x. found name (x ∷ drop (i + 1) all)) (sym at)

    pub found_here : bytes_eq name (rc_str_bytes item.0) ≡ true → Some (plain_value_of item.1) ≡ found name all
    found_here h = sym (by_item ∙ ap (λ b. if b then Some (plain_value_of item.1) else found name (drop (i + 1) all)) h)

    pub found_later : bytes_eq name (rc_str_bytes item.0) ≡ false → found name (drop (i + 1) all) ≡ found name all
    found_later h = sym (by_item ∙ ap (λ b. if b then Some (plain_value_of item.1) else found name (drop (i + 1) all)) h)
