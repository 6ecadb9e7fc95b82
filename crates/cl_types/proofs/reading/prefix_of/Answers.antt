use Rattle.std.proofs.Common.{◌<◌, Option, Some, None, ap, arith}
use Rattle.std.specs.Option.{IfNone}
use Rattle.cl_types.specs.Addr.{width_of}
use Rattle.cl_types.proofs.Addresses.{address_unique, prefix_sides}
use Rattle.cl_types.proofs.Parts.{lacks_no_cut, part_same}
use Rattle.cl_types.specs.declared.reading.Family.TheVariants.{Dotted}
use Rattle.cl_types.proofs.reading.prefix_of.Goals as goal

pub returns-in_err-address-clause-none : goal.returns-in_err-address-clause-none
returns-in_err-address-clause-none c =
    rw c.from_residual.ensures (λ p o. lacks_no_cut 47 c.args.text.now o.address_text _ c.in_err-address.ensures.none o.whole)

pub returns-in_err-a-clause-none : goal.returns-in_err-a-clause-none
returns-in_err-a-clause-none c =
    rw c.from_residual-in_err-a.ensures (λ p o.
    let sides = prefix_sides c.args.text.now c.in_ok-address.address.now c.in_ok-address.len.now p c.in_ok-address.ensures.found c.in_ok-address.ensures.first o in
    c.in_err-a.ensures.none sides.a sides.form)

pub returns-in_err-len-clause-none : goal.returns-in_err-len-clause-none
returns-in_err-len-clause-none c =
    rw c.from_residual-in_err-len.ensures (λ p o.
    let sides = prefix_sides c.args.text.now c.in_ok-address.address.now c.in_ok-address.len.now p c.in_ok-address.ensures.found c.in_ok-address.ensures.first o in
    c.in_err-len.ensures.none p.len sides.octet)

none_weaker : {X : Type 0} (r : Option X) (P Q : Type 0) → (P → Q) → IfNone r P → IfNone r Q
none_weaker None P Q f h = f h
none_weaker (Some x) P Q f h = h

pub returns-clause-none : goal.returns-clause-none
returns-clause-none c =
    none_weaker c.clear_past.result (width_of c.in_ok-a.a < c.in_ok-len.len) _
    (λ past p o.
    let sides = prefix_sides c.args.text.now c.in_ok-address.address.now c.in_ok-address.len.now p c.in_ok-address.ensures.found c.in_ok-address.ensures.first o in
    let same_len = part_same Dotted c.in_ok-address.len.now p.len c.in_ok-len.len sides.octet c.in_ok-len.ensures.found in
    let same = address_unique c.in_ok-address.address.now sides.a c.in_ok-a.a sides.form c.in_ok-a.ensures.found in
    omega (arith, same_len, ap width_of same, sides.below))
    c.clear_past.ensures.none
