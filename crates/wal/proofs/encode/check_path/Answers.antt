use Rattle.wal.proofs.Changes.{text_names}
use Rattle.wal.proofs.encode.check_path.Goals as goal

pub returns : goal.returns
returns c =
    let reported = text_names c.args.text.now c.in_ok-_path._path c.type_inv.text c.in_ok-_path.ensures in
    (c.in_ok-_path._path, reported.0, reported.1)
