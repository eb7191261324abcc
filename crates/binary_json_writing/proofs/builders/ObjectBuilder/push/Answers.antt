use Rattle.std.proofs.Common.{◌≡◌, ◌<◌, ◌^◌, ℕ, List, true, false, map, length, refl, ap, ◌∙◌, inl, inr, arith}
use Rattle.std.proofs.lemmas.Result.{err_from_is_err_and}
use Rattle.binary_json_writing.specs.Keys.{may_follow}
use Rattle.binary_json_writing.specs.Stored.{key_in}
use Rattle.binary_json_writing.specs.declared.entry.Entry.{Entry}
use Rattle.binary_json_writing.proofs.Built.{member_keys, ordered_after}
use Rattle.binary_json_writing.proofs.builders.ObjectBuilder.push.Goals as goal

pub returns-then-not-may_follow-clause-refused : goal.returns-then-not-may_follow-clause-refused
returns-then-not-may_follow-clause-refused c =
    let es = c.args.self.now.list.entries.items in
    let few : length c.args.key.now < 2 ^ 16 = omega arith in
    let no : may_follow (map key_in es) c.args.key.now ≡ false = cc (c.may_follow.ensures, c.if-not-may_follow.true) in
    inr (few, inl (refl, ap (λ (ks : List (List ℕ)). may_follow ks c.args.key.now) (member_keys es) ∙ no))

pub returns-in_err-key-clause-refused : goal.returns-in_err-key-clause-refused
returns-in_err-key-clause-refused c =
    let es = c.args.self.now.list.entries.items in
    let few : length c.args.key.now < 2 ^ 16 = omega arith in
    let yes : may_follow (map key_in es) c.args.key.now ≡ true = cc (c.may_follow.ensures, c.if-not-may_follow.false) in
    let p = err_from_is_err_and c.from_residual.result c.from_residual.ensures.1 in
    rw (p.1, p.2) (inr (few, inr (refl, ap (λ (ks : List (List ℕ)). may_follow ks c.args.key.now) (member_keys es) ∙ yes)))

pub invariant_of-self : goal.invariant_of-self
invariant_of-self c =
    let self = c.args.self.now in
    let e : Entry = record { key = c.in_ok-key.key; value = c.args.value.bytes } in
    let yes : may_follow (map key_in self.list.entries.items) c.args.key.now ≡ true = cc (c.may_follow.ensures, c.if-not-may_follow.false) in
    let follows : may_follow (map key_in self.list.entries.items) e.key.items ≡ true = ap (λ (k : List ℕ). may_follow (map key_in self.list.entries.items) k) c.in_ok-key.ensures.items ∙ yes in
    record {
      object = c.push.ensures.keyed ∙ self.object;
      ordered = ordered_after c.push.result self.list.entries.items c.push.new.self.entries.items e c.push.ensures.more c.push.ensures.same self.ordered follows;
    }

pub returns-in_err-push-clause-refused : goal.returns-in_err-push-clause-refused
returns-in_err-push-clause-refused c =
    let es = c.args.self.now.list.entries.items in
    let few : length c.args.key.now < 2 ^ 16 = omega arith in
    let yes : may_follow (map key_in es) c.args.key.now ≡ true = cc (c.may_follow.ensures, c.if-not-may_follow.false) in
    let p = err_from_is_err_and c.from_residual-in_err-push.result c.from_residual-in_err-push.ensures.1 in
    rw (p.1, p.2) (inr (few, inr (refl, ap (λ (ks : List (List ℕ)). may_follow ks c.args.key.now) (member_keys es) ∙ yes)))

pub returns-clause-ordered : goal.returns-clause-ordered
returns-clause-ordered c =
    let es = c.args.self.now.list.entries.items in
    let yes : may_follow (map key_in es) c.args.key.now ≡ true = cc (c.may_follow.ensures, c.if-not-may_follow.false) in
    ap (λ (ks : List (List ℕ)). may_follow ks c.args.key.now) (member_keys es) ∙ yes
