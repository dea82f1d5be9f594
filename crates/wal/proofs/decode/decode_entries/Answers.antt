use Rattle.std.proofs.Common.{◌≢◌, ◌++◌, List, length, ap, sym, ◌∙◌, refl, inl, arith}
use Rattle.std.proofs.lemmas.Grind.{common_steps}
use Rattle.wal.specs.declared.wal_entry.WalEntry.{WalEntry}
use Rattle.wal.specs.Entries.{body_of}
use Rattle.wal.proofs.Bodies.{body_more, continues_first, continues_more, no_change, no_entry}
use Rattle.wal.proofs.decode.decode_entries.Goals as goal

pub loop-rest-init : goal.loop-rest-init
loop-rest-init c = record { so_far = ap (λ (cs : List WalEntry). body_of cs ++ c.args.body.now) (sym c.new-changes.ensures.items); others = continues_first c.args.body.now }

pub loop-rest-preserved : goal.loop-rest-preserved
loop-rest-preserved c =
    let rest = c.loop-rest.rest.now in
    let behind = c.in-Some.behind.now in record {
      so_far = body_more c.args.body.now rest behind c.loop-rest.changes.items c.in-Ok.change c.in-Some.head c.in-Some.first.now c.in-Some.second.now c.loop-rest.invariant.so_far c.in-Some.ensures.is c.in-Ok.ensures
          ∙ ap (λ (cs : List WalEntry). body_of cs ++ behind) (sym c.in_ok-push-in-Ok.ensures);
      others = continues_more c.args.body.now rest behind c.in-Some.head c.in-Some.first.now c.in-Some.second.now c.in-Some.ensures.fits c.in-Some.ensures.is c.loop-rest.invariant.others;
    }

pub returns-in_default : goal.returns-in_default
returns-in_default c =
    let some : length c.loop-rest.rest.now ≢ 0 = grind (arith, common_steps) in
    inl (refl, no_entry c.args.body.now c.loop-rest.rest.now c.loop-rest.invariant.others some c.in_default.ensures.is)

pub returns-in-Err : goal.returns-in-Err
returns-in-Err c =
    no_change c.args.body.now c.loop-rest.rest.now c.in-Some.behind.now c.in-Some.head c.in-Some.first.now c.in-Some.second.now c.in-Err.fault c.in-Some.ensures.fits c.in-Some.ensures.is c.loop-rest.invariant.others c.in-Err.ensures
