use Rattle.std.proofs.Common.{Some, sym, ap, ◌∙◌}
use Rattle.ds_dir.proofs.Rooms.{IsRead, kind_in, kind_named, named_free, named_used, none_or_some, some_same, same_entry}
use Rattle.ds_dir.proofs.room.room_named.Goals as goal

pub returns-in_err-kind : goal.returns-in_err-kind
returns-in_err-kind c = λ room h b.
    let read : IsRead c.args.bytes.now c.read-parts.result = record { size = c.requires; parts = c.read-parts.ensures.parts; fits = c.read-parts.ensures.fits } in
    let kind = kind_named c.args.bytes.now c.read-parts.result room read h b in
    absurd (none_or_some c.kind_of_code.result (kind_in room) c.in_err-kind.was (c.kind_of_code.ensures ∙ kind))

pub returns-in_default : goal.returns-in_default
returns-in_default c = λ room h b.
    let read : IsRead c.args.bytes.now c.read-parts.result = record { size = c.requires; parts = c.read-parts.ensures.parts; fits = c.read-parts.ensures.fits } in
    let kind = kind_named c.args.bytes.now c.read-parts.result room read h b in
    let same = some_same c.kind_of_code.result (kind_in room) c.in_ok-kind.field-0 (c.kind_of_code.ensures ∙ kind) c.in_ok-kind.was in
    ap Some (sym (named_free room (same ∙ c.in_default.is)))

pub returns-in_err-name : goal.returns-in_err-name
returns-in_err-name c = λ room h b.
    let read : IsRead c.args.bytes.now c.read-parts.result = record { size = c.requires; parts = c.read-parts.ensures.parts; fits = c.read-parts.ensures.fits } in
    let kind = kind_named c.args.bytes.now c.read-parts.result room read h b in
    let same = some_same c.kind_of_code.result (kind_in room) c.in_ok-kind.field-0 (c.kind_of_code.ensures ∙ kind) c.in_ok-kind.was in
    let used = named_used c.args.bytes.now c.read-parts.result room c.in-Some.kind read (same ∙ c.in-Some.is) h b in
    absurd (none_or_some c.name_named.result used.entry.name c.in_err-name.was (c.name_named.ensures used.entry.name used.is_entry.is_name (sym used.holds.same_length) used.holds.same_name))

pub returns : goal.returns
returns c = λ room h b.
    let read : IsRead c.args.bytes.now c.read-parts.result = record { size = c.requires; parts = c.read-parts.ensures.parts; fits = c.read-parts.ensures.fits } in
    let kind = kind_named c.args.bytes.now c.read-parts.result room read h b in
    let same = some_same c.kind_of_code.result (kind_in room) c.in_ok-kind.field-0 (c.kind_of_code.ensures ∙ kind) c.in_ok-kind.was in
    let used = named_used c.args.bytes.now c.read-parts.result room c.in-Some.kind read (same ∙ c.in-Some.is) h b in
    let name = some_same c.name_named.result c.in_ok-name.name used.entry.name c.in_ok-name.was (c.name_named.ensures used.entry.name used.is_entry.is_name (sym used.holds.same_length) used.holds.same_name) in
    ap Some (ap Some (same_entry used.entry c.in_ok-name.name c.read-parts.result.object c.read-parts.result.birth c.in-Some.kind name used.holds.same_object used.holds.same_birth used.has_kind) ∙ sym used.is_some)
