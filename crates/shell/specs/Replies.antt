-- The replies as text.
use Rattle.std.specs.Prelude.{ℕ, List, ◌++◌, length, codes, decimal, flat_map}
use Rattle.pathkey.specs.Names.{Name}
use Rattle.pathkey.specs.Numbers.{word_of}
use Rattle.reference.specs.Image.{percent}
use Rattle.textio.specs.Texts.{hex_text, number_line}
use Rattle.reference.specs.declared.reply.Reply.{Reply}
use Rattle.reference.specs.declared.reply.Reply.TheVariants.{Done, Count, Data, Stat, Names, Fault}
use Rattle.reference.specs.declared.reply.Kind.{Kind}
use Rattle.reference.specs.declared.reply.Kind.TheVariants.{Dir, File}

-- the word before the length and the mtime in the reply to `stat`
abbrev pub stat_word : Kind → List ℕ
stat_word Dir = codes "dir "
stat_word File = codes "file "

-- the word before a name in the reply to `readdir`
abbrev pub name_word : Kind → List ℕ
name_word Dir = codes "d "
name_word File = codes "f "

-- an entry of a directory: its kind, and its name in percent form
abbrev pub entry_line : Kind × Name → List ℕ
entry_line e = name_word e.0 ++ flat_map percent e.1 ++ codes "\n"

-- the lines that a reply is written as
abbrev pub reply_text : Reply → List ℕ
reply_text Done = codes "ok\n"
reply_text (Count n) = number_line (codes "count ") n
reply_text (Data bytes) = codes "bytes " ++ hex_text bytes ++ codes "\n"
reply_text (Stat kind n at) = stat_word kind ++ decimal n ++ number_line (codes " ") at
reply_text (Names entries) = number_line (codes "names ") (length entries) ++ flat_map entry_line entries
reply_text (Fault e) = codes "fault " ++ word_of e ++ codes "\n"
