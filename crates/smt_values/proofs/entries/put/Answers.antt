use Rattle.std.proofs.Common.{◌≡◌, ◌<◌, false, length, map, get_or, sym, ap, ◌∙◌, rules}
use Rattle.std.proofs.lemmas.List.{get_or_default}
use Rattle.std.specs.Prelude.{bytes_eq}
use Rattle.smt_term.specs.Entities.{bytes_of_type}
use Rattle.smt_values.specs.View.{entry_named}
use Rattle.smt_values.proofs.PutEntry.{entry_insert, place}
use Rattle.smt_values.proofs.entries.put.Goals.{else-place-len-via-then-place-len+else-eq, else-place-len-via-else-place-len}
use Rattle.smt_values.proofs.entries.put.Goals as goal

pub returns-clause-put : goal.returns-clause-put
returns-clause-put c =
    let at : c.place_of-place.result ≡ place (bytes_of_type c.args.item.0) (map entry_named c.args.items.now.items) = c.place_of-place.ensures.place ∙ ap (λ es. place (bytes_of_type c.args.item.0) (map entry_named es)) c.as_slice.ensures.value in
    let other : c.place_of-place.result < length c.args.items.now.items → bytes_eq (bytes_of_type (get_or c.args.items.now.items c.place_of-place.result c.args.item).0) (bytes_of_type c.args.item.0) ≡ false =
    λ l. elim c.else-place-len.branch [
      | else-place-len-via-then-place-len+else-eq w ↦
          let same : get_or c.args.items.now.items c.place_of-place.result c.args.item ≡ w.index.result.now = get_or_default c.args.items.now.items c.place_of-place.result c.args.item w.index.result.now l ∙ sym w.index.ensures in
          ap (λ e. bytes_eq (bytes_of_type e.0) (bytes_of_type c.args.item.0)) same ∙ (sym w.eq.ensures ∙ w.if-eq.false)
      | else-place-len-via-else-place-len w ↦ search rules
    ]
    in
    ap (map entry_named) c.in_ok-insert.ensures.items ∙ entry_insert c.args.item.0 c.args.item.1 c.args.item c.args.items.now.items c.place_of-place.result at other
