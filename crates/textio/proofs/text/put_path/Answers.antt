use Rattle.std.proofs.Common.{ℕ, List, ◌∷◌, ◌++◌, codes, sym, ap, ◌∙◌, subst, append_assoc}
use Rattle.std.specs.List.{flat_map}
use Rattle.std.proofs.KnownBytes.{Appends-trans}
use Rattle.reference.specs.Image.{path_text, percent}
use Rattle.textio.specs.Parts.{AppendsPart}
use Rattle.textio.proofs.Known.{on_err, part_after, part_before}
use Rattle.textio.proofs.text.put_path.Goals as goal

pub returns-in_err-put-clause-err : goal.returns-in_err-put-clause-err
returns-in_err-put-clause-err g c =
    let (done, split, appended) = c.names.invariant in
    let rest : List ℕ = flat_map percent c.in-Some.name.now ++ path_text c.in-Some.rest in
    on_err _ _ (subst (AppendsPart _ _) (sym (split ∙ ap (λ (l : List (List ℕ)). done ++ path_text l) c.in-Some.ensures.0))
    (part_after _ _ _ done (codes "/" ++ rest) appended (part_before _ _ (codes "/") rest c.in_err-put.ensures.err)))

pub returns-in_err-put_percent-clause-err : goal.returns-in_err-put_percent-clause-err
returns-in_err-put_percent-clause-err g c =
    let (done, split, appended) = c.names.invariant in
    let name : List ℕ = flat_map percent c.in-Some.name.now in
    on_err _ _ (subst (AppendsPart _ _) (sym (split ∙ ap (λ (l : List (List ℕ)). done ++ path_text l) c.in-Some.ensures.0))
    (part_after _ _ _ done (codes "/" ++ (name ++ path_text c.in-Some.rest)) appended
    (part_after _ _ _ (codes "/") (name ++ path_text c.in-Some.rest) c.in_ok-put.ensures.ok (part_before _ _ name (path_text c.in-Some.rest) c.in_err-put_percent.ensures.err))))

pub names-preserved : goal.names-preserved
names-preserved g c =
    let (done, split, appended) = c.names.invariant in
    let name : List ℕ = flat_map percent c.in-Some.name.now in (
      done ++ (47 ∷ name),
      split ∙ ap (λ (l : List (List ℕ)). done ++ path_text l) c.in-Some.ensures.0 ∙ sym (append_assoc done (47 ∷ name) (path_text c.in-Some.rest)),
      Appends-trans _ _ _ done (47 ∷ name) appended (Appends-trans _ _ _ (codes "/") name c.in_ok-put.ensures.ok c.in_ok-put_percent.ensures.ok),
    )
