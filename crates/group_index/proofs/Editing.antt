-- Members that are edited at some addresses: what is found at each address.
use Rattle.std.proofs.Common.{◌≡◌, ◌++◌, List, [], ◌∷◌, map, Bool, true, false, ◌||◌, Option, Some, None, if◌then◌else◌, refl, sym, ap, subst, ◌∙◌}
use Rattle.std.specs.Ordering.{is_eq}
use Rattle.cl_types.specs.declared.addr.Addr.{Addr}
use Rattle.cl_types.specs.Addr.{addr_eq, addr_order, addr_order_total}
use Rattle.cl_types.specs.AddrEq.{addr_eq-one, addr_eq_by_order}
use Rattle.cl_types.specs.Ascending.{found}
use Rattle.cl_types.specs.AscendingLaws.{ascends_put, ascends_without, equal_maps, found_at, found_put, found_without}
use Rattle.cl_types.specs.OrderLaws.{addr_order_exact}
use Rattle.cluster_objects.specs.Addresses.{is_among}
use Rattle.group_index.specs.declared.moves.Edit.{Edit}
use Rattle.group_index.specs.Members.{MemberData}
use Rattle.group_index.specs.Settled.{AscendByAddress, DiffersAt, at_address, edit_to, edited_by, with_at}

abbrev pub address_of : MemberData → Addr
address_of m = m.address

pub with_ascends : (a : Addr) (o : Option MemberData) (ms : List MemberData) → AscendByAddress ms → AscendByAddress (with_at a o ms)
with_ascends a (Some m) ms up = ascends_put address_of addr_order_total m ms up
with_ascends a None ms up = ascends_without address_of addr_order_total a ms up

edited_ascends : (edits : List Edit) (ms : List MemberData) → AscendByAddress ms → AscendByAddress (edited_by edits ms)
edited_ascends [] ms up = up
edited_ascends (e ∷ es) ms up = with_ascends e.address e.member (edited_by es ms) (edited_ascends es ms up)

-- the edit at the end is made first
pub edited_last : (es : List Edit) (e : Edit) (ms : List MemberData) → edited_by (es ++ e ∷ []) ms ≡ edited_by es (with_at e.address e.member ms)
edited_last [] e ms = refl
edited_last (x ∷ es) e ms = ap (with_at x.address x.member) (edited_last es e ms)

-- with what others have at an address
found_with : (a b : Addr) (new ms : List MemberData) → AscendByAddress ms → found (at_address b) (with_at a (found (at_address a) new) ms) ≡ (if addr_eq a b then found (at_address b) new else found (at_address b) ms)
found_with a b new ms up = by_found (found (at_address a) new) refl
  where
    at_it : (o : Option MemberData) → found (at_address a) new ≡ o → (t : Bool) → addr_eq a b ≡ t → (if t then o else found (at_address b) ms) ≡ (if t then found (at_address b) new else found (at_address b) ms)
    at_it o is true same = sym (subst (λ x. found (at_address x) new ≡ o) (addr_eq-one a b same) is)
    at_it o is false same = refl

    by_found : (o : Option MemberData) → found (at_address a) new ≡ o → found (at_address b) (with_at a o ms) ≡ (if addr_eq a b then found (at_address b) new else found (at_address b) ms)
    by_found (Some m) is =
        found_put address_of addr_order_total b m ms
        ∙ (ap (λ v. if v then Some m else found (at_address b) ms) (ap (λ x. is_eq (addr_order x b)) (addr_order_exact m.address a (found_at (at_address a) new m is)) ∙ sym (addr_eq_by_order a b))
        ∙ at_it (Some m) is (addr_eq a b) refl)
    by_found None is =
        found_without address_of addr_order_total a b ms up
        ∙ (ap (λ v. if v then None else found (at_address b) ms) (sym (addr_eq_by_order a b)) ∙ at_it None is (addr_eq a b) refl)

-- at each of the addresses what the others have, and elsewhere what there was
found_edited : (new : List MemberData) (addresses : List Addr) (ms : List MemberData) → AscendByAddress ms → (b : Addr)
    → found (at_address b) (edited_by (map (edit_to new) addresses) ms) ≡ (if is_among b addresses then found (at_address b) new else found (at_address b) ms)
found_edited new [] ms up b = refl
found_edited new (a ∷ addresses) ms up b =
    found_with a b new (edited_by (map (edit_to new) addresses) ms) (edited_ascends (map (edit_to new) addresses) ms up)
    ∙ by_test (addr_eq a b) (found_edited new addresses ms up b)
  where
    by_test : (t : Bool) → found (at_address b) (edited_by (map (edit_to new) addresses) ms) ≡ (if is_among b addresses then found (at_address b) new else found (at_address b) ms)
        → (if t then found (at_address b) new else found (at_address b) (edited_by (map (edit_to new) addresses) ms)) ≡ (if (t || is_among b addresses) then found (at_address b) new else found (at_address b) ms)
    by_test true later = refl
    by_test false later = later

-- members that differ at the addresses alone become the others
pub edited_same : (addresses : List Addr) (old new : List MemberData) → DiffersAt addresses old new → edited_by (map (edit_to new) addresses) old ≡ new
edited_same addresses old new d =
    equal_maps address_of addr_order_total (edited_by (map (edit_to new) addresses) old) new (edited_ascends (map (edit_to new) addresses) old d.old_ascends) d.new_ascends
    (λ b. found_edited new addresses old d.old_ascends b ∙ by_test b (is_among b addresses) refl)
  where
    by_test : (b : Addr) (t : Bool) → is_among b addresses ≡ t → (if t then found (at_address b) new else found (at_address b) old) ≡ found (at_address b) new
    by_test b true is = refl
    by_test b false is = d.alike b is
