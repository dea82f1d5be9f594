use Rattle.std.proofs.Common.{◌≡◌, List, [], ℕ, ◌++◌, length, ap, ◌∙◌, append_assoc, rules}
use Rattle.wal.specs.Entries.{entry_front, numbers, word}
use Rattle.wal.proofs.encode.front_of.Goals as goal

put_after : (a b d e f g h i k : List ℕ) → a ≡ [] → b ≡ a ++ f → d ≡ b ++ g → e ≡ d ++ h → i ≡ e ++ k → i ≡ f ++ g ++ h ++ k
put_after a b d e f g h i k ea eb ed ee ei =
    ei ∙ ap (λ (x : List ℕ). x ++ k) (ee ∙ ap (λ (x : List ℕ). x ++ h) (ed ∙ ap (λ (x : List ℕ). x ++ g) (eb ∙ ap (λ (x : List ℕ). x ++ f) ea)))
    ∙ simp append_assoc

pub returns : goal.returns
unfolding entry_front
returns c =
    put_after c.in_ok-front.front.items c.put_numbers.new.out.items c.push_u64.new.out.items c.push_u64-2.new.out.items (numbers c.args.head) (word (length c.args.first.now)) (word c.args.second_len) c.extend_from_slice.new.self.items c.args.first.now
    (search rules) c.in_ok-put_numbers.ensures c.in_ok-push_u64.ensures c.in_ok-push_u64-2.ensures (search rules)
