-- `pack::read_pack` meets its contract: what the layout is refused with comes first; else it is what `fill_found` gives for the layout that is found.
use Rattle.std.proofs.Common.{◌≡◌, Err, rules, refl, sym, ap, ◌∙◌}
use Rattle.rules.specs.Refusal.{refusal_of}
use Rattle.pack.proofs.Passed.{read_layout, read-refused}
use Rattle.pack.proofs.Unpacking.{found→read}
use Rattle.pack.proofs.reading.read_pack.Goals as goal

pub returns-in_err-found : goal.returns-in_err-found
returns-in_err-found c =
    let refusal = c.in_err-found.field-0.0 in
    let same : c.from_residual-in_err-found.result ≡ Err refusal = search rules in
    rw same
    (read-refused _ _ refusal
    (read_layout _ _ (c.in_ok-check_len.ensures.when.0 refl) (sym c.read_layout.ensures.answered ∙ ap refusal_of c.in_err-found.was)))

pub returns : goal.returns
returns c =
    found→read c.in_ok-found.found _ _ _ _ (c.in_ok-check_len.ensures.when.0 refl)
    (c.read_layout.ensures.finds c.in_ok-found.found c.in_ok-found.was) c.fill_found.ensures
