use Rattle.std.proofs.Common.{sym, ◌∙◌}
use Rattle.cow_map.proofs.TableFacts.{joined_parts, rows_front, rows_back}
use Rattle.cow_map.proofs.chunks.split_chunks_at.Goals as goal

pub returns-clause-parts : goal.returns-clause-parts
returns-clause-parts g c = sym c.split_at.ensures.same ∙ joined_parts c.in_ok-m.m c.split_at.new.rows.items c.split_off.new.self.items c.in_ok-back.back.items c.in_ok-back.ensures.items c.in_ok-back.ensures.tail

pub returns-clause-rows : goal.returns-clause-rows
returns-clause-rows g c = rows_front c.in_ok-m.m c.split_at.new.rows.items c.split_off.new.self.items c.in_ok-back.ensures.items c.split_at.ensures.rows

pub returns-clause-back_rows : goal.returns-clause-back_rows
returns-clause-back_rows g c = rows_back c.in_ok-m.m c.split_at.new.rows.items c.in_ok-back.back.items c.in_ok-back.ensures.tail c.split_at.ensures.rows
