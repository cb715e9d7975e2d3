use Rattle.std.proofs.Common.{◌++◌, map, codes, sym, ap, ◌∙◌}
use Rattle.std.specs.List.{join_with_byte}
use Rattle.plai_base.specs.Mask.{slots_of}
use Rattle.plai_terms.specs.Groups.{ordered, slot_text, group_text}
use Rattle.plai_terms.proofs.Joined.{pieces, map_twice}
use Rattle.plai_terms.proofs.groups.write_groups.Goals as goal

pub returns : goal.returns
returns c =
    pieces c.args.out.now.items c.extend_from_slice.new.self.items c.write_lists.new.out.items c.extend_from_slice-2.new.self.items c.write_slots.new.out.items
    (codes "sh={") (join_with_byte 44 (map group_text (ordered (map slots_of c.args.groups.now)))) (codes "} fr={")
    (join_with_byte 44 (map slot_text (slots_of c.args.free)))
    c.push.new.self.items
    c.in_ok-extend_from_slice.ensures.items
    (c.in_ok-write_lists.ensures ∙ ap (λ l. c.extend_from_slice.new.self.items ++ join_with_byte 44 l)
    (sym (map_twice group_text (λ list. list.items) c.deref.result.now)
    ∙ ap (map group_text) (ap (map (λ list. list.items)) c.deref.ensures.value ∙ c.in_ok-lists.ensures)))
    c.in_ok-extend_from_slice-2.ensures.items
    (c.in_ok-write_slots.ensures ∙ ap (λ l. c.extend_from_slice-2.new.self.items ++ join_with_byte 44 (map slot_text l))
    (c.deref-2.ensures.value ∙ c.in_ok-slots.ensures))
    c.in_ok-push.ensures.items
